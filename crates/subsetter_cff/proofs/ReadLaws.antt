-- What is read of a CFF table.
pub mod EntriesLaws
pub mod Results
pub mod FdArrayLaws
pub mod SourceBytes
pub mod FrontParts
pub mod Failing
pub mod Opening
pub mod Refusals
pub mod Faults
pub mod Soundness
pub mod StringFaults
pub mod OpeningRows
