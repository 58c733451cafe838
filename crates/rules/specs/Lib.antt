-- What the contracts of `rules` cite, in the order to read it.
pub mod Breach
pub mod Table
pub mod Listed
