pub mod NearestPairs
pub mod Calls
pub mod Work
pub mod Statements
