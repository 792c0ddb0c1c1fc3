-- Where the coordinates of a user lie on the axes of a font (OpenType, "fvar" and "avar").
pub mod Ascent
pub mod Bent
pub mod Bounds
pub mod Counting
pub mod Placing
