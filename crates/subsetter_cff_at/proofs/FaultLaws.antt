-- What is refused has a fault of that name.
pub mod PrivateFaults
pub mod RunFaults
pub mod GlyphFaults
pub mod Faults
