-- What the contracts of `faults` cite, in the order to read it.
pub mod Faults
pub mod Rows
pub mod Emission
pub mod Adding
pub mod Completing
