-- The run of a charstring.
pub mod Acts
pub mod AfterRuns
pub mod Operating
pub mod OutputLemmas
pub mod RecursionLemmas
pub mod Runs
