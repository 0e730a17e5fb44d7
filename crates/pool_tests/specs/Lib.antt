pub mod PlainTable
