-- Which font dict a glyph has (OpenType, "CFF2": "FDSelect").
pub mod Select
pub mod SelectSearch
pub mod SelectSearchView
pub mod SelectView
pub mod UsedDicts
