-- Laws that are not about a single function.
pub mod Granted
pub mod Eight
pub mod Laying
pub mod Backward
