-- Laws that are not about a single function.
pub mod Placed
pub mod Queries
pub mod Exact
