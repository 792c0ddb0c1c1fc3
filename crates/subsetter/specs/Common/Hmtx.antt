-- Metrics: `hhea` and `hmtx`.
pub mod Read
pub mod Written
