pub mod Reading
pub mod Rows
pub mod Answered
pub mod Opened
pub mod Session
pub mod Examples
