-- INDEX structures (Technical Note 5176, section 5).
pub mod IndexItems
pub mod IndexRests
pub mod Indexes
pub mod Writing
