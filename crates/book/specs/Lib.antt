-- What the contracts of `book` cite, in the order to read it.
pub mod Book
pub mod Run
pub mod Claim
pub mod Says
pub mod InRattle
