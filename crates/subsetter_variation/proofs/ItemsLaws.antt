-- Item variation stores, and what varies by them (OpenType, "Item Variation Store", "HVAR" and "MVAR").
pub mod Items
pub mod Terms
pub mod Values
