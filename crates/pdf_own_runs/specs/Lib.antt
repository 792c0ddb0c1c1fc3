pub mod Fonts
pub mod Shown
