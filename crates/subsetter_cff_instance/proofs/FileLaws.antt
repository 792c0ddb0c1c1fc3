-- The file of a static font: how it is laid out, and what is read afresh from it.
pub mod Head
pub mod Metrics
pub mod Request
pub mod Boxes
pub mod Afresh
pub mod Instance
