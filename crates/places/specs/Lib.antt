pub mod Fault
pub mod Put
pub mod Written
