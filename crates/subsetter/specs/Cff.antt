-- Subsets with outlines in a CFF table.
pub mod Plain
pub mod Read
pub mod View
