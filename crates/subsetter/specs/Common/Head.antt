-- The font header: `head`.
pub mod Written
pub mod Read
