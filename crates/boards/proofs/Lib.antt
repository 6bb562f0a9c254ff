pub mod Boards
pub mod Lines
pub mod Loops
