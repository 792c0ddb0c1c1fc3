-- DICTs (Technical Note 5176, section 4).
pub mod Dict
pub mod Operands
pub mod ParserView
pub mod TokenView
pub mod Plain
pub mod Tokens
