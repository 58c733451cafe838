-- What the contracts of `pool` cite, in the order to read it.
pub mod Answer
pub mod Reading
pub mod Walk
