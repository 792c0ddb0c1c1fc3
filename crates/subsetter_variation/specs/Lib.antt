pub mod Locations
pub mod Items
pub mod Glyphs
pub mod Nearest
pub mod Packing
pub mod Region
pub mod VariationLaws
