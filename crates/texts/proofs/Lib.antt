pub mod Decimal
pub mod Lengths
pub mod Spacing
pub mod ReadBack
