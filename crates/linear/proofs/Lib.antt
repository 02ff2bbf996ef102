pub mod Pairs
pub mod Theorems
pub mod Components
pub mod Nearest
pub mod Ranges
pub mod Gathering
pub mod PartReports
