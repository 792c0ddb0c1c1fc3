pub mod Fitting
pub mod Moved
