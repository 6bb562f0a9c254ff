pub mod Items
pub mod Totaller
pub mod Running
pub mod Adders
pub mod Numbers
