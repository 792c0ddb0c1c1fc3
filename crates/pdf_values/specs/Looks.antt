-- How a font looks: flags, weight, lean, heights and box (ISO 32000-1, Tables 122 and 123).
pub mod Bounds
pub mod Flags
pub mod Heights
pub mod ItalicAngle
pub mod Weight
