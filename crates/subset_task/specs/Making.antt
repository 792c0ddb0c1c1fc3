-- What is made of the font that is read.
pub mod Picked
pub mod Requested
