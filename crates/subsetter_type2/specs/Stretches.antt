-- Stretches of a charstring that stay as they are.
pub mod Plain
pub mod Stretch
