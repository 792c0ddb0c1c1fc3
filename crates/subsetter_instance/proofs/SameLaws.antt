-- The number of steps decides whether there is an answer, and not which.
pub mod Simple
pub mod Costs
pub mod Composite
pub mod Unfolded
pub mod Answer
