mod AxisSteps
pub mod Boxes
mod Counting
mod ExactSteps
mod Tags
pub mod Widening
