pub mod CharstringBox
pub mod Joined
pub mod Traced
