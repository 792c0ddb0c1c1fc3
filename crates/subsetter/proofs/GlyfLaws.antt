-- Outlines: `glyf` and `loca`.
pub mod Components
pub mod Chains
pub mod Back
pub mod BareOutlinesLaws
pub mod ReachingLaws
pub mod KeptList
pub mod Woven
pub mod Kept
pub mod Walk
pub mod Fault
pub mod Parts
pub mod Renumbering
