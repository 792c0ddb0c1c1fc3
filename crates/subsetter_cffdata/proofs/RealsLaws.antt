-- The reals of a DICT (Technical Note 5176, section 4, table 5).
pub mod PlainDigits
pub mod Powers
pub mod RealTexts
pub mod Reals
pub mod Texts
pub mod Trims
