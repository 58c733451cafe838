-- What the contracts of `terminal` cite.
pub mod Texts
pub mod Display
