pub mod Ended
pub mod SpellingLemmas
pub mod Settled
pub mod Called
mod OneOutcome
