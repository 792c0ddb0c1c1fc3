-- The walk over a glyph and its components stops exactly where there is a fault.
pub mod Simple
pub mod Composite
pub mod Walk
