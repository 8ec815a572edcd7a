pub mod Bounds
pub mod Ceiling
pub mod Spare
pub mod Sums
