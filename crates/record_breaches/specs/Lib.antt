-- What the contracts of `record_breaches` cite.
pub mod Elements
pub mod Others
