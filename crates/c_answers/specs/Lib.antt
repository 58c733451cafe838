-- What the contracts of `c_answers` cite.
pub mod Numbers
pub mod Exchange
pub mod Steps
