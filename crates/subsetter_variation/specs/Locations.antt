-- Where the coordinates of a user are on the axes of a font (OpenType, "fvar" and "avar").
pub mod Axes
pub mod Coordinates
pub mod LocationLaws
pub mod Segments
