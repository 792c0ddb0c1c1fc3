-- The dicts of a new table.
pub mod MatrixView
pub mod PrivatesBound
pub mod Rewritten
pub mod TopDictView
pub mod UsedFontDicts
pub mod WrittenNumbers
