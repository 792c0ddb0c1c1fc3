pub mod CallSteps
pub mod DrawnSteps
pub mod MapLaws
pub mod OwnLaws
pub mod SaidLaws
pub mod TextLaws
