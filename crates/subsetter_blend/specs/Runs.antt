-- The run of a CFF2 charstring.
pub mod Blend
pub mod Kind
pub mod Machine
pub mod MachineView
pub mod Number
pub mod Operands
pub mod Small
