pub mod Calls
pub mod FixedTable
pub mod Magnitudes
pub mod Work
