-- What the contracts of `decimal` cite, in the order to read it.
pub mod Digits
pub mod Reading
