-- What the contracts of `query_claims` cite, in the order to read it.
pub mod Texts
pub mod Lent
