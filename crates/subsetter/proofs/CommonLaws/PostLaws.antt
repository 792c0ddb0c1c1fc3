-- The names of glyphs: `post`.
pub mod Indexes
pub mod Marks
pub mod Runs
pub mod Entries
pub mod Steps
pub mod Own
pub mod Answer
pub mod Fault
pub mod Clean
pub mod Kept
pub mod WithoutNames
