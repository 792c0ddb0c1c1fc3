-- The outlines of a subset of a subset.
pub mod CharStringLaws
pub mod CharStrings
pub mod CidKeyed
pub mod Laid
pub mod Outlines
pub mod PartNumbers
pub mod Truetype
pub mod Unknown
