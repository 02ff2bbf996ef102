pub mod Round
pub mod Spectra
pub mod Calls
pub mod Parts
pub mod Work
pub mod Statements
