-- The charstring that is written.
pub mod Flex
pub mod Laid
pub mod Placed
pub mod Marks
pub mod Split
pub mod Stems
pub mod Taking
pub mod Written
