-- What belongs to no one function. Assumes nothing.
pub mod Passing
pub mod Sorting
pub mod Filled
pub mod Verdict
pub mod Checking
pub mod Parts
pub mod Displayed
