-- Stretches of a charstring that stay as they are.
pub mod PlainTables
pub mod Stretches
pub mod FixedNumbers
