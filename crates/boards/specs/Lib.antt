pub mod Board
pub mod Line
pub mod Atoms
pub mod Base
