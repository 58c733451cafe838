-- Laws that are not about a single function.
pub mod Truth
pub mod Names
pub mod Repeats
pub mod Chain
pub mod Doubles
pub mod Fields
pub mod Parts
pub mod Sound
pub mod Complete
pub mod Listing
