pub mod Swaps
pub mod Calls
pub mod Statements
pub mod Work
