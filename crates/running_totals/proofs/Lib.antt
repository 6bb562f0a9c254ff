pub mod Rows
pub mod Sums
