pub mod Formula
pub mod Clause
pub mod Numbered
