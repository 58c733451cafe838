-- Laws that are not about a single function.
pub mod Ordinals
pub mod Laying
pub mod Outcomes
pub mod Backward
pub mod Parts
pub mod Again
