-- The run of a CFF2 charstring.
pub mod Acts
pub mod BlendLaws
pub mod Blends
pub mod Runs
pub mod Smalls
pub mod Stacks
