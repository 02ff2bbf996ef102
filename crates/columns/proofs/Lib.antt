pub mod Rows
pub mod Accepted
pub mod Additions
pub mod Standing
