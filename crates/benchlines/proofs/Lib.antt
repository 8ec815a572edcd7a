pub mod Hexes
pub mod Counts
pub mod Reading
pub mod Words
pub mod Opened
