-- The tables that fonts with either kind of outlines have.
pub mod HeadLaws
pub mod HmtxLaws
pub mod MaxpLaws
pub mod NameLaws
pub mod PostLaws
pub mod SharedLaws
