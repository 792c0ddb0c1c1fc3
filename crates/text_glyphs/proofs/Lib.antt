pub mod CodeSteps
pub mod HalfLaws
pub mod HalfSteps
pub mod KindLaws
pub mod ReadSteps
pub mod RecordSteps
