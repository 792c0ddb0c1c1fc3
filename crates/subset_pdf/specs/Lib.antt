pub mod Options
pub mod Shown
pub mod Line
pub mod Cells
pub mod Sheet
