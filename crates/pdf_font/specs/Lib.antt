pub mod First
pub mod Laws
pub mod Opened
pub mod PdfFont
pub mod Taken
