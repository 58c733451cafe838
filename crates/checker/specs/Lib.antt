-- What the contracts of `checker` cite, in the order to read it.
pub mod Checking
pub mod Tables
