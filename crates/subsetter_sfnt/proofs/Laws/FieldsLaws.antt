-- Tables that are written from their fields.
pub mod HeadLaws
pub mod HheaLaws
pub mod HmtxLaws
