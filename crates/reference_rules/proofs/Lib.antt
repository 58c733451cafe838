-- Laws that are not about a single function.
pub mod Tags
pub mod Looking
pub mod Seen
pub mod Walking
pub mod Linked
pub mod Linking
pub mod Listed
