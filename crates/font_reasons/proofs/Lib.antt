pub mod Components
pub mod NameSteps
mod Numbering
pub mod Unbounded
