pub mod Rows
pub mod Few
pub mod Keys
pub mod Look
pub mod Taking
pub mod Gathering
pub mod Candidate
