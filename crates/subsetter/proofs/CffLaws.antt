-- Laws of subsets with a CFF table.
pub mod Steps
pub mod Order
pub mod Subset
pub mod Fault
pub mod TwoLimits
pub mod Bound
