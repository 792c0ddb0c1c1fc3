pub mod TablesLaws
pub mod GlyphsLaws
pub mod Defaults
pub mod MetricLaws
pub mod FileLaws
pub mod SameLaws
pub mod FaultLaws
mod NoBound
pub mod Opened
