pub mod Text
pub mod Lines
pub mod Objects
pub mod View
pub mod Faces
pub mod Notes
pub mod Index
pub mod Missing
