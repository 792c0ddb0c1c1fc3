-- How answers are handed to C.
pub mod Bytes
pub mod Lists
pub mod Made
