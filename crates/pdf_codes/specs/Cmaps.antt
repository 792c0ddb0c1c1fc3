-- The CMaps of codes: the texts that they have, and the CIDs that they lead to.
pub mod Leading
pub mod Texts
