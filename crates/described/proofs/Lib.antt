pub mod RegionLemmas
pub mod RunLemmas
pub mod Instances
pub mod MapInstances
pub mod Soundness
