pub mod Change
pub mod Defaults
pub mod Laws
pub mod Opening
pub mod Tables
pub mod View
