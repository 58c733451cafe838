-- Laws that are not about a single function.
pub mod Exact
