pub mod SameOnes
pub mod Masks
pub mod Component
pub mod Loops
pub mod Lists
pub mod Checks
pub mod Theorems
