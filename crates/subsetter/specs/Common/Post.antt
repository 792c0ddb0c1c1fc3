-- The names of glyphs: `post`.
pub mod Read
pub mod Plain
pub mod Marks
pub mod Fault
