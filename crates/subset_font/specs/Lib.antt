pub mod Batch
pub mod Making
pub mod Report
pub mod Faces
pub mod Refusals
