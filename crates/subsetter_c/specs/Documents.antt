-- Fonts and files for PDF, handed to C.
pub mod Codes
pub mod Parts
pub mod PdfFonts
pub mod PdfGlyphs
pub mod PdfLaws
pub mod PdfObjects
pub mod PdfOptions
pub mod Reading
pub mod Runs
pub mod TextFonts
pub mod Texts
pub mod Whole
