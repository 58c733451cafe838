-- Laws that are not about a single function.
pub mod Counting
pub mod Tables
