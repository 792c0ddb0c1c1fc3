-- Where there is no instance there is a fault, and where there is a fault there is no instance.
pub mod Opening
pub mod Parts
pub mod Place
pub mod Source
pub mod ItemLaws
pub mod Tables
pub mod WalkLaws
pub mod Rounded
pub mod Lines
pub mod Glyph
pub mod Refused
pub mod Clean
