pub mod Steps
pub mod MetricsLaws
pub mod TablesLaws
pub mod Making
pub mod FileLaws
pub mod SameLaws
pub mod FaultLaws
pub mod Opened
