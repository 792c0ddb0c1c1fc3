pub mod Characters
pub mod Fixed
pub mod Pieces
pub mod Quoted
