-- What the contracts of `cases` cite.
pub mod Pools
pub mod Starred
pub mod Worked
pub mod Objects
pub mod Listings
