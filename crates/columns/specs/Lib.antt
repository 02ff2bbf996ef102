pub mod Addition
pub mod Statements
