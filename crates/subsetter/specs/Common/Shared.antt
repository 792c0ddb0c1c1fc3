-- The tables that both kinds of outlines share.
pub mod Plain
pub mod View
