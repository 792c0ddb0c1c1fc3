-- Many requests in one run, a line each.
pub mod Making
pub mod Running
