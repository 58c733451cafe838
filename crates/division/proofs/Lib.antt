-- Laws that are not about a single function.
pub mod Reading
pub mod Fields
pub mod Runs
pub mod Marks
pub mod Records
pub mod Exact
pub mod Unique
pub mod Written
