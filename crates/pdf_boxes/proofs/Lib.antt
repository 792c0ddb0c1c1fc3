mod Glyphs
mod Unbounded
