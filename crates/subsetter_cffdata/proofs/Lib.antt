pub mod NumeralsLaws
pub mod DictsLaws
pub mod IndexesLaws
pub mod RealsLaws
pub mod Rows
pub mod Options
