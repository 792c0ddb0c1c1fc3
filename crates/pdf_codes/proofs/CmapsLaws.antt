-- The CMaps of codes: the texts that they have, and the CIDs that they lead to.
pub mod JoinerSteps
pub mod LeadingSteps
pub mod LedLaws
pub mod LimitSteps
pub mod ReadBack
pub mod TextSteps
pub mod Written
