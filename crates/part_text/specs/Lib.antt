pub mod Board
pub mod Fault
pub mod Names
pub mod Reading
pub mod Writing
