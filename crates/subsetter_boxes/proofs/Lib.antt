mod Around
mod CurvePoints
mod Edges
pub mod Fitting
mod Followed
mod Fronts
mod Lines
mod Operands
mod Runs
mod Shapes
mod Turns
mod Walks
