-- How a new table is laid out.
pub mod Checked
pub mod FrontDrafts
pub mod Fronts
pub mod Largest
pub mod LimitsKept
pub mod MadeOf
pub mod Offsets
pub mod PartsMade
pub mod Places
pub mod Sizes
pub mod TablesWritten
pub mod Whole
