-- Which glyphs a list of glyphs reaches through components.
pub mod Closure
pub mod Found
pub mod Taken
pub mod Unfold
