-- What a face is: its axes, its names, its tables.
pub mod Axes
pub mod Info
pub mod Names
pub mod Outlines
pub mod Pictures
pub mod Settings
pub mod Sizes
