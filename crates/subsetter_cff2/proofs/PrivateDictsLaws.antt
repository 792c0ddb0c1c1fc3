-- Private dicts, and what they are at a location (OpenType, "CFF2": "Private DICT Data").
pub mod Entries2
pub mod PlacedBack
pub mod PlacedFits
pub mod PrivateLaws
pub mod PrivateSteps
pub mod PrivateWrites
pub mod Sharing
pub mod Stacks2
