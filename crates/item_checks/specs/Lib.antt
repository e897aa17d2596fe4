pub mod Entries
pub mod Layouts
pub mod PrivateStanding
pub mod PrivateTakings
pub mod Reasons
pub mod Refusals
pub mod Standing
pub mod Taken
