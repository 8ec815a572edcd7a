pub mod Replies
pub mod Rows
pub mod Timings
pub mod After
pub mod Answered
pub mod Outcomes
