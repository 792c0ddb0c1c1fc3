-- The dicts of a new table.
pub mod DictsWritten
pub mod FontDictRefusals
pub mod FontDictSteps
pub mod FontDicts
pub mod Powers
pub mod Rewriting
pub mod Thousandth
pub mod Tops
pub mod UsedByGlyphs
pub mod UsedNumbers
pub mod WrittenEntries
