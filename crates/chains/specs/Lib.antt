-- What the contracts of `chains` cite.
pub mod Steps
pub mod Noted
