pub mod XorTable
pub mod Calls
pub mod Running
pub mod Work
pub mod Statements
