-- What the contracts of `records` cite, in the order to read it.
pub mod Layout
pub mod Extents
pub mod Answer
pub mod Places
pub mod Late
