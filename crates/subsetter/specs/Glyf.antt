-- Outlines: `glyf` and `loca`.
pub mod Read
pub mod Parts
pub mod BareOutlines
pub mod Reaching
pub mod Written
pub mod Plain
pub mod Fault
pub mod View
pub mod Woven
