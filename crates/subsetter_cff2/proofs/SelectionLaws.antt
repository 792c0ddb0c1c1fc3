-- Which font dict a glyph has (OpenType, "CFF2": "FDSelect").
pub mod BlockSteps
pub mod Halves
pub mod RangeSteps
pub mod Ranges2
pub mod UsedLaws
