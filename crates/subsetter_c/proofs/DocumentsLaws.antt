-- Fonts and files for PDF, handed to C.
pub mod PdfFonts
pub mod PdfGlyphs
pub mod PdfLaws
pub mod PdfObjects
pub mod Reading
pub mod Parts
pub mod Whole
pub mod Runs
