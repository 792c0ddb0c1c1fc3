pub mod Units
pub mod Content
pub mod File
pub mod Pages
pub mod Lines
pub mod Read
pub mod View
