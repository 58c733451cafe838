-- What the contracts of `presentation` cite.
pub mod Rounding
pub mod Display
pub mod Fixed
