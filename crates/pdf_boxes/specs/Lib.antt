pub mod Kept
pub mod SourceBox
