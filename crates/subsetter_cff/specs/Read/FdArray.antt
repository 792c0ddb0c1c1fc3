-- FDArray and FDSelect: font dicts with their private dicts (Technical Note 5176, sections 15, 16, 18 and 19).
pub mod FontDictFaults
pub mod FontDictList
pub mod FontDicts
pub mod Keying
pub mod Private
pub mod PrivateView
pub mod RangeBlocks
pub mod Ranges
pub mod SubrSayings
