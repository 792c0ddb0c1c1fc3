-- What can be wrong in a font of which there is no instance.
pub mod Hvar
pub mod Maps
pub mod Mvar
pub mod Rows
pub mod Stores
