-- Laws that are not about a single function.
pub mod Parts
pub mod Lengths
pub mod Records
pub mod Found
pub mod Whole
