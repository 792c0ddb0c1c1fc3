pub mod AxisTexts
pub mod Decimal
pub mod Instances
pub mod Letters
pub mod MovedName
