-- The entries of top and font dicts, and what they say (Technical Note 5176, sections 9 and 18).
pub mod Cuts
pub mod EntriesFit
pub mod EntryFaults
pub mod EntrySound
pub mod FieldsTaken
pub mod FirstCells
pub mod Holding
pub mod LastEntries
pub mod LastHolds
pub mod Lookups
pub mod Plains
pub mod ReadFits
pub mod ReadNumbers
pub mod SaidByEntries
