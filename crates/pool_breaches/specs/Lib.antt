-- What the contracts of `pool_breaches` cite.
pub mod Passing
pub mod Lending
