pub mod Late
pub mod Temporary
