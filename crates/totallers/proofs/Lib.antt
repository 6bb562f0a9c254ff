pub mod Faultless
pub mod Goods
