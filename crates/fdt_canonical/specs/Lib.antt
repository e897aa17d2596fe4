pub mod Canonical
pub mod Job
pub mod Promises
