pub mod Step
pub mod Readings
pub mod ReadingSteps
pub mod Avoided
pub mod OneOutcome
pub mod Due
pub mod Taken
