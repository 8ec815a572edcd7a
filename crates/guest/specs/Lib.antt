pub mod Sides
pub mod Together
pub mod Theorems
pub mod Placed
pub mod Lawful
