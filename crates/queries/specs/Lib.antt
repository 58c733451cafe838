-- What the contracts of `queries` cite, in the order to read it.
pub mod Queries
pub mod Parts
