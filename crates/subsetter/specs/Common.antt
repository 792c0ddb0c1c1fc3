-- The tables that fonts with either kind of outlines have.
pub mod Head
pub mod Hmtx
pub mod Maxp
pub mod Name
pub mod Post
pub mod Shared
