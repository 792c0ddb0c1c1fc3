pub mod Laws
pub mod Repeats
pub mod View
