mod AllWidths
mod Answered
mod Fresh
pub mod Bare
mod BoxedPrograms
mod CffWidths
mod KeptBoxes
mod Wide
mod LawProofs
mod NewLaws
mod OneFont
mod Opening
pub mod Refused
mod ShortNames
mod Tables
