pub mod Algebraic
pub mod Calls
pub mod Work
pub mod Statements
