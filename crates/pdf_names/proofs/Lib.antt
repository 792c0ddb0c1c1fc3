pub mod Digits
pub mod Passing
pub mod Records
pub mod ShortNames
pub mod Shortest
