pub mod Fakes
pub mod Outside
pub mod Places
pub mod Reads
pub mod Statuses
