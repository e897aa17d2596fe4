pub mod Listing
pub mod PrivateOpened
