pub mod Bitmaps
pub mod Colour
pub mod Counts
pub mod Graphics
pub mod Kinds
pub mod Outlines
pub mod Strikes
pub mod View
