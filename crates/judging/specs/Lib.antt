-- What the contracts of `judging` cite, in the order to read it.
pub mod Judging
pub mod Answer
pub mod One
pub mod Causes
pub mod Parts
