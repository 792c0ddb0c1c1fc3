pub mod Advances
pub mod Heights
pub mod Widths
