pub mod Method
pub mod Word
pub mod Reading
pub mod Writing
