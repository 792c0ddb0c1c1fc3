pub mod DefaultLocation
pub mod Subset
pub mod Promise
pub mod Afresh
pub mod Blended
pub mod Laws
