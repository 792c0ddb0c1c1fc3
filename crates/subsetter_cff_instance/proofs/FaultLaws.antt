-- Where there is no static font there is a fault, and where there is a fault there is no static font.
pub mod Opening
pub mod Source
pub mod Glyph
pub mod Refused
pub mod Clean
