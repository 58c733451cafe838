-- Laws that are not about a single function.
pub mod Rows
pub mod Looking
pub mod Noting
pub mod ElementRows
pub mod Elements
pub mod Others
