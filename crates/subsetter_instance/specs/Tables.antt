-- The tables and the file of an instance.
pub mod Extremes
pub mod Lines
pub mod Requested
pub mod Written
