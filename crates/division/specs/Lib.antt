-- What the contracts of `division` cite, in the order to read it.
pub mod Whole
pub mod Bad
pub mod Division
pub mod Claims
pub mod Written
