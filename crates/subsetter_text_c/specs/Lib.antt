pub mod Pairs
pub mod Items
pub mod Units
pub mod Shown
pub mod Own
