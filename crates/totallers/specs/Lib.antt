pub mod Fault
pub mod Writing
