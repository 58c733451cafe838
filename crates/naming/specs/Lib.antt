-- What the contracts of `naming` cite, in the order to read it.
pub mod Records
pub mod Naming
pub mod Lists
pub mod Chained
pub mod Entries
pub mod Once
