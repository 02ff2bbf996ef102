pub mod Nonlinearity
pub mod Calls
pub mod Parts
pub mod Lent
pub mod Statements
