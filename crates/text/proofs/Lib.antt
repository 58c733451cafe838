-- Laws that are not about a single function.
pub mod Steps
pub mod Derived
pub mod Examining
pub mod Words
