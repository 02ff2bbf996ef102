pub mod Sheet
pub mod Work
pub mod Statements
pub mod Calls
