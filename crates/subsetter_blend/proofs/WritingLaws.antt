-- The charstring that is written.
pub mod Following
pub mod Fits
pub mod FittingLaws
pub mod Places
pub mod SplitLaws
pub mod Splits
