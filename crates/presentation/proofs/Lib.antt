-- Laws that are not about a single function.
pub mod Sums
pub mod Range
pub mod Multiple
pub mod Bits
pub mod Product
pub mod Unique
pub mod Worked
pub mod Ruled
