-- In reading order. The words of a line, parts, productions, what words say, what an item asks for,
-- and all items in turn:
pub mod Texts
pub mod Parts
pub mod Grammar
pub mod Names
pub mod Changes
pub mod Features
pub mod Acts
pub mod Lines
pub mod Commands
pub mod Faults
-- The productions said in another way, and the words of well-formed acts:
pub mod Whole
pub mod WellFormed
-- The parser's values as these definitions:
pub mod Stages
pub mod Shown
