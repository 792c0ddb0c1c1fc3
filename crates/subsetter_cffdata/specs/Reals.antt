-- The reals of a DICT (Technical Note 5176, section 4, table 5).
pub mod Decimals
pub mod TextSteps
