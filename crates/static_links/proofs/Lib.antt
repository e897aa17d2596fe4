pub mod Instances
pub mod Links
pub mod Lists
pub mod RegionTests
pub mod Soundness
