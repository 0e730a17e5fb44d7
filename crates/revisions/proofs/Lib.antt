pub mod Ancestors
pub mod Bases
pub mod Cuts
mod ExpressionExamples
pub mod FirstPlaces
pub mod Parting
pub mod PathSteps
pub mod ReadingSteps
pub mod Steppings
pub mod Steps
pub mod Suffixes
pub mod TagWays
pub mod HeldContents
pub mod Differences
