pub mod Refusal
pub mod Boards
pub mod Judging
