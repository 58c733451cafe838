-- What the laws of `field_rules` cite, and the crates that use them.
pub mod Clean
