-- What the font that is read has, as it is shown.
pub mod Showing
