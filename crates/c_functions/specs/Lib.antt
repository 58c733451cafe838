-- What the contracts of `c_functions` cite.
pub mod Pools
pub mod Objects
pub mod Exchange
pub mod Logs
