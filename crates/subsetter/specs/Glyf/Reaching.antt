-- Which glyphs a list of glyphs reaches through components.
pub mod Closure
pub mod Reach
pub mod Unfold
