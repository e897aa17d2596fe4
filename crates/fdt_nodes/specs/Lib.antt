pub mod Nodes
pub mod Values
pub mod Entries
pub mod Held
pub mod NodeItems
pub mod ChildMaps
pub mod Controllers
