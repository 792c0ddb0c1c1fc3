-- The order of the glyphs of a subset of a subset.
pub mod Closed
pub mod Distinct
pub mod FoundAll
pub mod GivenOrder
pub mod Numbered
pub mod OneOrder
pub mod Order
pub mod Places
