-- Laws that are not about a single function.
pub mod Accepted
pub mod Whole
pub mod Asked
pub mod Padded
pub mod First
