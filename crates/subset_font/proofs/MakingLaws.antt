-- What is made of the font that is read.
pub mod Making
pub mod Outcomes
pub mod Sheets
