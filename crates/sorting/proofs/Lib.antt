pub mod Occurrences
pub mod Tallies
pub mod Totals
pub mod Places
pub mod Placing
pub mod Sorts
