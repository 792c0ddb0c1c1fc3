pub mod Figures
pub mod Numbers
pub mod Laws
pub mod View
