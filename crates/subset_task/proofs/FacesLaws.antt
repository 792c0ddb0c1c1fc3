-- What the font that is read has: its directory and its names.
pub mod Directory
pub mod Naming
