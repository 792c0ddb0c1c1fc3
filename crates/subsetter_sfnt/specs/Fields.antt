-- Fields of tables, by the names of the standard.
pub mod Head
pub mod Hhea
pub mod Hmtx
pub mod Loca
pub mod Maxp
pub mod Name
pub mod Os2
pub mod Post
