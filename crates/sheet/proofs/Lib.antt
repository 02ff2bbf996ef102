pub mod Printing
pub mod Outcomes
pub mod Sheets
pub mod Theorems
pub mod Example
