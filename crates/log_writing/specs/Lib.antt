-- What the contracts of `log_writing` cite, in the order to read it.
pub mod Writing
pub mod Back
pub mod Again
