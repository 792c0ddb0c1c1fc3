pub mod Advances
pub mod Answers
pub mod Options
pub mod Documents
pub mod Kinds
pub mod Reasons
pub mod Settings
pub mod Version
