-- What is made of a CFF table that was read, and written.
pub mod Laying
pub mod Subset
pub mod Made
pub mod NewDicts
pub mod Plain
pub mod PlainLaws
pub mod Headline
pub mod Refusals
pub mod Strings
pub mod Glyphs
pub mod Again
