-- lemmas on the definitions
pub mod Splits
pub mod Digits
pub mod Words
pub mod Sizes
pub mod Puts
pub mod Kept
