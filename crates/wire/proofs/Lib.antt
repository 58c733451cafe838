-- Laws that are not about a single function.
pub mod Width
pub mod Complement
pub mod Laid
pub mod Either
pub mod Octets
