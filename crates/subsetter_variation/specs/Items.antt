-- Item variation stores, and what varies by them (OpenType, "Item Variation Store", "HVAR" and "MVAR").
pub mod Advances
pub mod FontMetrics
pub mod ItemLaws
pub mod ItemVariations
pub mod Known
