pub mod Source
pub mod View
pub mod Composite
pub mod Written
pub mod Profile
pub mod Own
pub mod Refused
