pub mod Numbers
pub mod Crossing
pub mod Turned
pub mod SpectrumHalves
pub mod TransformHalves
pub mod Inverting
pub mod Magnitudes
pub mod Short
