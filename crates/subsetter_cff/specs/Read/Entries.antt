-- The entries of top and font dicts, and what they say (Technical Note 5176, sections 9 and 18).
pub mod Demands
pub mod Fields
pub mod FirstEntries
pub mod Lookup
pub mod Matrices
pub mod OperandDemands
pub mod Operators
pub mod TopDicts
pub mod Values
