-- What the font that is read has: its directory, its tables, its axes and its characters.
pub mod Axes
pub mod Missing
pub mod Named
pub mod Outlines
pub mod Tables
