-- How a font file is laid out.
pub mod Bound
pub mod Checksum
pub mod Laid
pub mod Records
pub mod Rows
pub mod TableBytes
pub mod Weights
pub mod Written
