-- What the contracts of `working_table` cite, in the order to read it.
pub mod Table
pub mod Rows
