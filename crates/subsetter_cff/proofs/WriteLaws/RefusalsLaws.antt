-- Why there is no new table.
pub mod CffFaults
pub mod Excluded
pub mod FaultNames
pub mod FaultRows
pub mod LimitFaults
