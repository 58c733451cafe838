-- The laws by which a function over the working table meets its contract.
pub mod Local
pub mod Cells
pub mod Straight
pub mod Entry
pub mod Carried
pub mod Calls
pub mod Filling
pub mod Parameters
pub mod Law
pub mod Choice
pub mod First
