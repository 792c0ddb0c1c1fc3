-- The dictionaries of a composite font (ISO 32000-1, 9.7.4, 9.7.5.3, 9.7.6, 9.8 and 9.9), as texts.
pub mod Entries
pub mod Fonts
pub mod Descriptor
pub mod Streams
pub mod Widths
