-- The names of a font: `name`.
pub mod Written
pub mod Placed
pub mod Back
pub mod Kept
pub mod Fault
pub mod Clean
