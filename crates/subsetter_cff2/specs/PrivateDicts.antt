-- Private dicts, and what they are at a location (OpenType, "CFF2": "Private DICT Data").
pub mod Blend
pub mod EntryLists
pub mod Held
pub mod PlacedAgain
pub mod Private2
pub mod Private2View
pub mod PrivateAt
pub mod PrivateKinds
pub mod PrivateText
