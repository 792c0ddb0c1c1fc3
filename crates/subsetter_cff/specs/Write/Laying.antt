-- How a new table is laid out.
pub mod Fits
pub mod FrontDraft
pub mod Layout
pub mod PartsBy
pub mod PartsView
pub mod ReadsAs
pub mod TableBy
pub mod TableLimits
