pub mod Spelling
pub mod Word
pub mod Text
pub mod Store
