-- The numbers of a subset of a subset.
pub mod FontDicts
pub mod KeptGlyphs
pub mod Renumbered
pub mod RenumberedUse
