-- A subset of a subset.
pub mod Composition
pub mod NumberLaws
pub mod Parts
pub mod SameParts
pub mod Demands
pub mod Opening
pub mod Shapes
pub mod Tables
pub mod Faults
pub mod ThreeTables
pub mod Rows
pub mod CidRows
