pub mod Format
pub mod Work
pub mod Calls
pub mod Rules
pub mod Statements
