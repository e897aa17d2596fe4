pub mod Guests
pub mod Phandles
pub mod PrivateCounts
pub mod Properties
pub mod Script
pub mod Text
