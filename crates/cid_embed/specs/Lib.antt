pub mod Again
pub mod Shrink
pub mod Afresh
pub mod Embed
pub mod Text
pub mod Width
