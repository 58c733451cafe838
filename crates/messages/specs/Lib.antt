-- What the contracts of `messages` cite, in the order to read it.
pub mod Layout
pub mod Reading
pub mod Writing
pub mod Back
pub mod Worked
