-- Laws that are not about a single function.
pub mod Mapped
pub mod Found
pub mod Erring
pub mod Verdict
pub mod Unique
pub mod Tested
pub mod Caused
