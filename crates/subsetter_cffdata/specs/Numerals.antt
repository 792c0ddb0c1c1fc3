-- The numbers of a DICT and of a charstring.
pub mod CharStringNumber
pub mod Limited
pub mod Numbers
pub mod ReadNumbers
pub mod Values
