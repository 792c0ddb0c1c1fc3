pub mod Order
pub mod Operators
pub mod Content
pub mod Places
pub mod Pens
pub mod Runs
pub mod Reading
