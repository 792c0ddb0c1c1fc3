pub mod Boxes
pub mod Frequent
pub mod HeightVariation
pub mod Keys
pub mod Origins
pub mod Tops
pub mod Vertical
