-- DICTs (Technical Note 5176, section 4).
pub mod Dicts
pub mod Entries
pub mod OperandSteps
pub mod Plains
pub mod Shorter
