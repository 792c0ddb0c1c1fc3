mod Glyphs
mod Loops
mod Openings
mod Traces
pub mod Whole
