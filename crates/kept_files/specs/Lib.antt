pub mod KeptCommits
