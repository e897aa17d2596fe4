pub mod HeadLemmas
pub mod BankLemmas
pub mod Sizes
pub mod LengthLemmas
pub mod RamdiskLemmas
pub mod PartSteps
pub mod LoadingLemmas
pub mod OneOutcome
pub mod Avoided
pub mod Never
pub mod Promised
pub mod PlaceLemmas
pub mod Loaded
mod Instances
