pub mod Enlargement
pub mod BentForm
pub mod Calls
pub mod Work
