pub mod Ends
pub mod Places
pub mod Steps
pub mod Gathering
pub mod Heads
pub mod Counts
pub mod Collecting
