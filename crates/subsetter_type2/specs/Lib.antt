pub mod Subroutines
pub mod Token
pub mod Runs
pub mod Flat
pub mod Laws
pub mod Stretches
pub mod ProgramView
pub mod View
