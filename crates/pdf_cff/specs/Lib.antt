pub mod Values
pub mod Stems
pub mod DictStems
pub mod View
