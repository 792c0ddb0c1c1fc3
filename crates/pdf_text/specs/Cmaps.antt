-- CMaps (ISO 32000-1, 9.7.5 and 9.10.3).
pub mod Blocks
pub mod Cmap
pub mod CmapName
pub mod Encoding
