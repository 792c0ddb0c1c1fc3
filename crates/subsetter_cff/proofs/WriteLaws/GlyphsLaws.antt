-- The glyphs that are kept, written.
pub mod Charsets
pub mod FlatIndexes
pub mod GlyphFaults
pub mod GlyphRows
pub mod GlyphsKept
pub mod KeptSteps
pub mod RunErrors
