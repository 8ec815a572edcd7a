pub mod Each
pub mod Gathering
pub mod Worked
pub mod Openings
pub mod Kept
