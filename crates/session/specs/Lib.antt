-- What the contracts of `session` cite, in the order to read it.
pub mod Answers
pub mod Calls
