-- The names of a font: `name`.
pub mod Read
pub mod Fault
pub mod Plain
pub mod View
