-- The variations of a glyph (OpenType, "gvar").
pub mod Between
pub mod Contours
pub mod Counted
pub mod Given
pub mod GvarFaults
pub mod Lying
pub mod StepCosts
pub mod StepLaws
pub mod Sums
pub mod Turning
pub mod Walk
pub mod Walks
pub mod SharedTuples
