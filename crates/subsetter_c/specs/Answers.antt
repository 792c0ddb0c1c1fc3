-- How answers are handed to C.
pub mod Embedding
pub mod Handed
pub mod Made
pub mod Status
