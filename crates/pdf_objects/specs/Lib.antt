pub mod View
pub mod Glyphs
