-- The tables of a subset of a subset.
pub mod CharStringTables
pub mod GlyphNames
pub mod Metrics
pub mod Names
pub mod Shared
pub mod SmallTables
pub mod TruetypeTables
