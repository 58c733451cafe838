-- Laws that are not about a single function.
pub mod Emission
pub mod Order
pub mod Clearing
pub mod Completing
pub mod Adding
