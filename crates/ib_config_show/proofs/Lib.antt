pub mod GuestLemmas
pub mod PartLemmas
mod Called
mod OneOutcome
