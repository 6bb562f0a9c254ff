pub mod Filling
pub mod Judgements
pub mod Totalling
pub mod Parts
