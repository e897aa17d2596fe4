pub mod Appends
pub mod Digits
pub mod GuestLemmas
pub mod MemoryBounds
pub mod PhandleLemmas
pub mod PlaceCounts
mod Instances
