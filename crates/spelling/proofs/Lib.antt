pub mod Pieces
pub mod Writing
pub mod Store
pub mod Words
pub mod Texts
pub mod Lines
