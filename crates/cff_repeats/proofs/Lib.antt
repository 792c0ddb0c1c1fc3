mod BlankTraces
mod Fitting
mod Glyphs
mod Laid
mod Matrices
pub mod Whole
