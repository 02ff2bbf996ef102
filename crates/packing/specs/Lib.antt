pub mod Packing
pub mod Work
