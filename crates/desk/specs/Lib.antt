pub mod DraftText
pub mod Rest
pub mod Encoding
