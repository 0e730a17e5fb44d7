pub mod PoolsInLists
pub mod TablesInLists
pub mod TwoTables
pub mod HeldTables
