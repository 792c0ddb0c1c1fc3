-- JSON objects (RFC 8259).
pub mod AxesJson
pub mod Json
pub mod Members
pub mod Pdf
