-- Laws that are not about a single function.
pub mod First
pub mod Climb
pub mod Lists
pub mod Looking
pub mod Starts
pub mod Chained
pub mod Names
pub mod Owned
pub mod Parents
