-- That no act comes where its command is not open.
pub mod Fitting
