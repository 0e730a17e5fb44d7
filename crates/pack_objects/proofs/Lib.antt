pub mod EntryTexts
mod Begun
pub mod MissingTold
pub mod NamesMore
