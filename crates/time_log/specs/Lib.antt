-- What the contracts of `time_log` cite, in the order to read it.
pub mod Layout
pub mod Contents
pub mod Judging
pub mod Refusing
pub mod Within
