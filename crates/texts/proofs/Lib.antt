pub mod Cuts
pub mod NumberLists
pub mod Ascending
pub mod Instances
pub mod Digits
pub mod ListTurns
