pub mod Counting
pub mod Parts
pub mod Said
pub mod Quotients
pub mod Digits
pub mod ListingLaws
pub mod WordLaws
pub mod Pieces
