-- Outlines without their instructions.
pub mod Bare
mod BareRows
pub mod Counted
pub mod Counts
pub mod NoInstructions
pub mod Sizes
