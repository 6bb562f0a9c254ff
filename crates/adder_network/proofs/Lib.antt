pub mod Adding
pub mod Reducing
pub mod Filling
pub mod Lining
pub mod Closing
pub mod Whole
