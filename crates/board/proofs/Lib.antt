pub mod Plans
pub mod Candidates
pub mod Timed
pub mod Tails
mod Gathering
pub mod Splits
pub mod Writes
pub mod Walks
pub mod Requests
pub mod Rooms
pub mod Found
mod Gathers
