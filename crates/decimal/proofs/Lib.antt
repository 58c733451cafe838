-- Laws that are not about a single function.
pub mod Digits
pub mod Reading
pub mod Places
