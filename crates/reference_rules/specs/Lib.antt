-- What the contracts of `reference_rules` cite.
pub mod Lists
pub mod Entries
