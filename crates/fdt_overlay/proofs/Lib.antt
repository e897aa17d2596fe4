pub mod Avoided
pub mod Never
pub mod OneOutcome
pub mod OverlaySteps
pub mod Promised
pub mod Quiet
pub mod Written
