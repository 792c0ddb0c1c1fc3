pub mod Standard
pub mod Post
pub mod Charset
pub mod Strings
pub mod Names
pub mod Sources
pub mod View
