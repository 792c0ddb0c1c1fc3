-- Glyphs at a location.
pub mod Components
pub mod Drawn
pub mod Cache
pub mod Known
pub mod Levels
pub mod Unfolded
