pub mod Rows
pub mod Operations
pub mod Histories
pub mod Whole
pub mod Held
pub mod Theorems
pub mod Any
