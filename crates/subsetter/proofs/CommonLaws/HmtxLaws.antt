-- Metrics: `hhea` and `hmtx`.
pub mod Written
pub mod Back
pub mod Kept
