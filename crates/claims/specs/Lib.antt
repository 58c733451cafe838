-- What the contracts of `claims` cite.
pub mod Reads
pub mod Checks
pub mod Parts
pub mod Displayed
