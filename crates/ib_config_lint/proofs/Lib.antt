pub mod BankLemmas
pub mod GuestLemmas
mod Instances
