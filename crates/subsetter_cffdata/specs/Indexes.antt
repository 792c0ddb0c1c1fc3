-- INDEX structures (Technical Note 5176, section 5).
pub mod Index
pub mod IndexRest
pub mod IndexView
pub mod OffsetSizes
pub mod Owned
