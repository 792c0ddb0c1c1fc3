-- What can be wrong in a font of which there is no instance.
pub mod CoordinatesFault
pub mod GlyphFault
pub mod ItemFault
pub mod LinesFault
pub mod RoundedFault
pub mod SourceFault
pub mod WalkFault
