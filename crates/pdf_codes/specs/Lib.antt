pub mod Codes
pub mod Laws
pub mod Cmaps
pub mod Shown
pub mod Units
