-- What the font that is read has: its directory, its tables, its axes and its characters.
pub mod Accepted
pub mod Info
