-- The file of an instance: how it is laid out, and what is read afresh from it.
pub mod Head
pub mod Lines
pub mod Laid
pub mod Outlines
pub mod Metrics
pub mod Fitting
pub mod Among
pub mod Steps
pub mod Afresh
pub mod Instance
