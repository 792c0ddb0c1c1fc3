-- Packed point numbers and packed deltas (OpenType, "Tuple Variation Store").
pub mod Ascending
pub mod DeltaRuns
pub mod DeltasOn
pub mod Listed
pub mod ListedDeltas
pub mod Runs
