pub mod Avalanche
pub mod Calls
pub mod Parts
pub mod Work
pub mod Statements
