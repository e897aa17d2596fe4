pub mod Job
pub mod Lines
pub mod Promises
pub mod Shown
pub mod Words
