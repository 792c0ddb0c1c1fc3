-- A subset of a subset.
pub mod Basics
pub mod OrderLaws
pub mod TablesLaws
pub mod Less
pub mod ByKind
pub mod OutlinesLaws
pub mod Opening
pub mod Joined
pub mod Shrunk
