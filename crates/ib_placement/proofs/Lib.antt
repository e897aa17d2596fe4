pub mod OrderLemmas
pub mod PlaceLemmas
pub mod ConfigBounds
pub mod Laws
mod Instances
