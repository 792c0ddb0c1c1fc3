pub mod Columns
pub mod Ink
pub mod Metrics
