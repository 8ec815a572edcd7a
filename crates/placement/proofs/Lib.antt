pub mod Foremost
pub mod Orders
