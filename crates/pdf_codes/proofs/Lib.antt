pub mod CodeLaws
pub mod EachSteps
pub mod CmapsLaws
pub mod Pairs
pub mod RoomLaws
pub mod ShownSteps
pub mod StayLaws
pub mod TextLaws
