-- Laws that are not about a single function.
pub mod Runs
pub mod Answers
pub mod Prefix
pub mod Walks
pub mod Divided
pub mod Torn
pub mod Cuts
