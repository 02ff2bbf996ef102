pub mod Parts
pub mod FileRows
pub mod FileRoom
pub mod FileBytes
pub mod Written
pub mod Theorems
pub mod Example
