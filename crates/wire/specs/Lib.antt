-- What the contracts of `wire` cite, in the order to read it.
pub mod Bytes
pub mod Parts
pub mod ReadBack
pub mod Signed
