pub mod Appends
pub mod Loop
pub mod Texts
pub mod Again
pub mod Requests
