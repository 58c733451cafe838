-- Laws that are not about a single function.
pub mod InC
pub mod Exact
