pub mod BatchLaws
pub mod FacesLaws
pub mod Requesting
mod Steps
