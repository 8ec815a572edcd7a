-- lemmas on the definitions
pub mod Walk
pub mod Tested
pub mod AllowanceWalk
pub mod AllowanceTable
