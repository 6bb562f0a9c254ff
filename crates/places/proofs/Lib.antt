pub mod Clauses
pub mod Loops
pub mod Written
