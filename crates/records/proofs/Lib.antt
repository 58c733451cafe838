-- Laws that are not about a single function.
pub mod Ends
pub mod Range
pub mod Late
pub mod Untested
pub mod Marks
pub mod Codes
