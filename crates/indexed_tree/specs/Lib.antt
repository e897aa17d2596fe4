pub mod Lookups
pub mod PrivateArena
pub mod PrivateHolders
pub mod PrivateIndex
pub mod Words
