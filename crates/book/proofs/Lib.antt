-- Laws that are not about a single function.
pub mod Follows
pub mod Good
pub mod Steps
pub mod Acceptance
pub mod Turns
pub mod Lists
pub mod Exists
pub mod InRattle
pub mod Exact
