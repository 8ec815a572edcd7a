pub mod Ranks
pub mod Order
pub mod First
