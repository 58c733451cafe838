-- Laws that are not about a single function.
pub mod Steps
pub mod Starts
pub mod Listing
pub mod Judged
