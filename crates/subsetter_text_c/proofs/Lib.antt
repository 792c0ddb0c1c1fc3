pub mod PairLaws
pub mod UnitSteps
pub mod ShownSteps
pub mod OwnLaws
