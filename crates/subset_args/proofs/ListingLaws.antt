-- What an argument or a file lists: characters and glyphs.
pub mod CharacterParts
pub mod Hex
pub mod Scalars
