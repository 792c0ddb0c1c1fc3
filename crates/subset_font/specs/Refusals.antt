-- Why a run of the program ends without a subset.
pub mod Hint
pub mod LimitHint
pub mod SecondLook
pub mod Texts
