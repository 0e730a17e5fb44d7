-- In reading order: the faults, items as text, what an export holds, the items of an exported
-- object, the export, what it asks for, and which repositories a stream can hold.
pub mod Faults
pub mod ItemText
pub mod Reached
pub mod ExportItems
pub mod Export
pub mod ExportActs
pub mod Limits
pub mod Marking
pub mod Lines
