-- The number of glyphs: `maxp`.
pub mod Fields
pub mod Kept
