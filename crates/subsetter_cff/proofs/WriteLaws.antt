-- What is made of a CFF table that was read, and written.
pub mod StringsLaws
pub mod NewDictsLaws
pub mod LayingLaws
pub mod GlyphsLaws
pub mod Rows
pub mod Keeping
pub mod SourceFits
pub mod Headline
pub mod StepsAgree
pub mod RefusalsLaws
pub mod Promises
pub mod AgainLaws
