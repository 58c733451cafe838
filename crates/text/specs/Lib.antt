-- What the contracts of `text` cite, in the order to read it.
pub mod Octets
pub mod Grammar
pub mod Characters
pub mod Examined
