-- FDArray and FDSelect: font dicts with their private dicts (Technical Note 5176, sections 15, 16, 18 and 19).
pub mod FontDictLists
pub mod LeadingEntries
pub mod Locals
pub mod OwnPrivates
pub mod RangeBlockSteps
pub mod RangeLookups
pub mod RangeSteps
pub mod SoundDicts
pub mod SubrSaid
