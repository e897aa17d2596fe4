pub mod BadNames
pub mod Characters
pub mod Printed
pub mod PrivateOpened
pub mod PrivateReadings
pub mod PrivateTurns
pub mod ReadLaws
pub mod Source
