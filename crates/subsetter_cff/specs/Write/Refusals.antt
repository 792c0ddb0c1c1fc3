-- Why there is no new table.
pub mod CffFault
pub mod LimitFault
