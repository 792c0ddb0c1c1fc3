-- The number of glyphs: `maxp`.
pub mod Read
pub mod Written
