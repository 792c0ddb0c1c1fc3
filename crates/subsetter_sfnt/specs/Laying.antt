-- How a font file is laid out.
pub mod Checksum
pub mod Rows
pub mod Weights
pub mod Written
