pub mod Endings
pub mod Laws
pub mod Messages
pub mod Names
pub mod Outputs
pub mod PrivateOutcomes
pub mod Steps
pub mod Stops
