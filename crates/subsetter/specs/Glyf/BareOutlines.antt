-- Outlines without their instructions.
pub mod Bare
pub mod Instructions
pub mod Size
