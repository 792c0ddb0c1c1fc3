-- The glyphs that are kept, written.
pub mod FlatIndex
pub mod KeptView
