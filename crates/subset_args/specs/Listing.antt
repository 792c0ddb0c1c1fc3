-- What an argument or a file lists: characters and glyphs.
pub mod Characters
pub mod Few
pub mod Wrong
pub mod Files
pub mod ListView
pub mod Lists
