mod Tables
mod Reading
mod Numbers
mod Promises
mod FewerCids
pub mod AgainLaws
