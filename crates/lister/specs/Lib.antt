-- What the contracts of `lister` cite.
pub mod Reading
