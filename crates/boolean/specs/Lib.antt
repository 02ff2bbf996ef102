pub mod Bits
pub mod Sums
pub mod Functions
pub mod Selection
pub mod Statements
