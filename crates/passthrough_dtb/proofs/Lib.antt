pub mod Instances
pub mod Upward
pub mod Lists
pub mod Noted
pub mod Soundness
pub mod KnownNodes
pub mod CountLemmas
