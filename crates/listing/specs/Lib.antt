-- What the contracts of `listing` cite, in the order to read it.
pub mod Lines
