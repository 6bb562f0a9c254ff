pub mod Kind
pub mod Sum
pub mod Givens
pub mod Cage
pub mod Thermometer
pub mod Arrow
pub mod Four
