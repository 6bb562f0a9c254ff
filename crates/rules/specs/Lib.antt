pub mod Grid
pub mod Rule
pub mod Clauses
pub mod Model
pub mod Reading
pub mod Promise
