-- A TrueType subset as a whole.
pub mod Plain
pub mod View
pub mod Answered
pub mod Read
