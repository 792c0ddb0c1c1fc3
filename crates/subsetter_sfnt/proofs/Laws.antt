-- The font file: directory, tables, checksums.
pub mod FieldsLaws
pub mod LayingLaws
pub mod Back
pub mod Fault
pub mod Opening
pub mod Lookups
pub mod Container
pub mod Asked
