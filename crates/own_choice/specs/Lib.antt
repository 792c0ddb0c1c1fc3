pub mod Choosing
pub mod Laws
pub mod Parts
