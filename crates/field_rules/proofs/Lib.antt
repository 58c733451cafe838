-- Laws that are not about a single function.
pub mod ByKind
pub mod Clearing
pub mod Placed
