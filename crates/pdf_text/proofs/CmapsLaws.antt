-- CMaps (ISO 32000-1, 9.7.5 and 9.10.3).
pub mod BlockSteps
pub mod CmapLaws
pub mod CmapSteps
pub mod NamedSteps
