-- The tables that both kinds of outlines share.
pub mod Steps
pub mod Kept
pub mod Fault
