-- The strings of a new table.
pub mod SidRemapping
