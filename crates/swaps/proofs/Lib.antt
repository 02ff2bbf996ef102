pub mod Apart
pub mod Gathering
pub mod Trying
pub mod Raising
pub mod Searches
pub mod Members
pub mod Accepted
pub mod Theorems
