pub mod TextSteps
pub mod OneOutcome
pub mod Avoided
pub mod Never
pub mod Shown
pub mod Promised
