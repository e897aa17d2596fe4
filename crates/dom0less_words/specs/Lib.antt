pub mod Command
pub mod Meant
pub mod PrivateKeptOptions
pub mod Settings
pub mod Usage
pub mod Words
