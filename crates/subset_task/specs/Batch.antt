-- Many requests in one run, a line each.
pub mod Answers
pub mod Orders
pub mod Requests
