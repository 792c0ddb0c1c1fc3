pub mod Marks
pub mod Entries
pub mod Text
pub mod Steps
