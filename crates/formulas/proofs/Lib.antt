pub mod All
pub mod Lists
pub mod Every
pub mod Numbered
pub mod Valid
