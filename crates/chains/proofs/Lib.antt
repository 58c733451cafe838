-- Laws that are not about a single function.
pub mod Jumping
pub mod Falling
pub mod Noting
