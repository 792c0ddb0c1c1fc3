pub mod Entries
pub mod Made
pub mod Texts
pub mod Written
