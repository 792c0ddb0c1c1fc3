pub mod Drawn
pub mod GlyphMap
pub mod Laws
pub mod Own
pub mod Pairs
pub mod Said
pub mod TextFont
pub mod Texts
