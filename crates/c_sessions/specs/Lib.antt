-- What the contracts of `c_sessions` cite.
pub mod InC
