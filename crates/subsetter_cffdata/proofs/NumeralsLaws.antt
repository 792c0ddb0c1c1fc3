-- The numbers of a DICT and of a charstring.
pub mod BoundedNumbers
pub mod Cards
pub mod CharStringNumbers
pub mod Integers
pub mod MiddleNumbers
pub mod Values
pub mod Wholes
