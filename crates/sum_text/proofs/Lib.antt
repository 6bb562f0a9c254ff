mod Faults
mod Sums
mod Words
