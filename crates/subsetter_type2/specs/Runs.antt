-- The run of a charstring.
pub mod Following
pub mod Machine
pub mod MachineView
pub mod Output
pub mod OutputView
pub mod Reached
pub mod Recursion
pub mod Setting
