-- The strings of a new table.
pub mod KeptStrings
pub mod Numbering
pub mod StringCount
pub mod StringPlaces
pub mod Strings
