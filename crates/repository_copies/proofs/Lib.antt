pub mod Adding
pub mod TreeSteps
pub mod ObjectSteps
pub mod Fitting
pub mod Short
pub mod Counting
