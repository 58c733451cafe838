-- Laws that are not about a single function.
pub mod Nine
pub mod Parts
pub mod Runs
pub mod Numbers
pub mod Refusals
