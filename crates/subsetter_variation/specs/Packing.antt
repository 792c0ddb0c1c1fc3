-- Packed point numbers and packed deltas (OpenType, "Tuple Variation Store").
pub mod Packed
