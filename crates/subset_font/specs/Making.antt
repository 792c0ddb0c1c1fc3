-- What is made of the font that is read.
pub mod Carried
pub mod Made
pub mod Outcome
pub mod Sheet
