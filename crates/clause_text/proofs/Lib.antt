pub mod Headings
pub mod Faults
