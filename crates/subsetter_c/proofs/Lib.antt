pub mod AdvancesLaws
mod Asked
mod AtCoordinates
pub mod AnswersLaws
mod Letters
mod Questions
mod TextsHanded
pub mod DocumentsLaws
