-- Glyphs at a location.
pub mod Bearings
pub mod Chains
pub mod Ends
pub mod Glyphs
pub mod Joins
pub mod KeptLemmas
pub mod PartLemmas
pub mod Phantoms
pub mod Points
pub mod Reach
pub mod Wholes
