pub mod Scale
pub mod Share
pub mod Demand
pub mod Within
pub mod Row
pub mod Limits
pub mod Refusal
pub mod Theorems
