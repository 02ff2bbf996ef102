pub mod Masks
pub mod Steps
pub mod Statements
pub mod Work
pub mod Parts
