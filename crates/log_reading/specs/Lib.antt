-- What the contracts of `log_reading` cite, in the order to read it.
pub mod Reading
pub mod Logs
pub mod Joined
pub mod Whole
pub mod Worked
