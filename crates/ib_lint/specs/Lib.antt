pub mod Job
pub mod Promises
pub mod Verdicts
