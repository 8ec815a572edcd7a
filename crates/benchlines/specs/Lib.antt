pub mod Hex
pub mod Numbers
pub mod Tasks
pub mod Openings
pub mod Settings
