-- The tables and the file of an instance.
pub mod Boxes
pub mod OrderLemmas
pub mod RequestedLemmas
pub mod RunLemmas
pub mod WriteLemmas
