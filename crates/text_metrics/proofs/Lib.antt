pub mod Each
pub mod Units
