pub mod BatchLaws
pub mod FacesLaws
pub mod MakingLaws
pub mod RefusalsLaws
