-- What the contracts of `pool_listing` cite, in the order to read it.
pub mod Listing
pub mod Parts
