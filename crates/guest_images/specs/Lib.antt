pub mod Built
pub mod Faults
pub mod Images
pub mod Names
pub mod PrivateImageFiles
pub mod Requests
pub mod Walks
