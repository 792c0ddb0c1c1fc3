pub mod Batch
pub mod Chosen
pub mod Faces
pub mod Files
pub mod Making
pub mod Notes
pub mod Refusals
pub mod Streams
