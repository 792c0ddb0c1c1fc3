-- The variations of a glyph (OpenType, "gvar").
pub mod GvarFault
pub mod Inferred
pub mod Movement
pub mod Moves
pub mod SharedScalars
pub mod Tuples
pub mod Varied
