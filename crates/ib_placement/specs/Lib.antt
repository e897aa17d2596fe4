pub mod Apart
pub mod Placement
