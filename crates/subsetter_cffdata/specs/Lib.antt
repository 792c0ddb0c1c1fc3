pub mod Bytes
pub mod Numerals
pub mod Reals
pub mod Dicts
pub mod Indexes
pub mod Reading
pub mod Views
