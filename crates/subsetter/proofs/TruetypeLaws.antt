-- A TrueType subset as a whole.
pub mod Steps
pub mod Subset
pub mod Fault
pub mod PlainAnswers
pub mod Bound
