pub mod Texts
pub mod RefNames
pub mod RefNameExamples
pub mod Fronts
pub mod Idents
pub mod IdentLaws
pub mod IdentExamples
pub mod OneLine
pub mod HeaderLines
pub mod FirstLines
pub mod TreeReadings
pub mod CommitReadings
pub mod CommitTimes
pub mod TagReadings
pub mod Readables
pub mod Places
pub mod Least
pub mod Earlier
pub mod Peelings
pub mod Growing
pub mod GoodRefs
mod ReadingExamples
mod ReachExamples
