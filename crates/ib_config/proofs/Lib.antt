pub mod RunLemmas
pub mod BodyLemmas
pub mod TextLemmas
pub mod AssignLemmas
pub mod NumberLemmas
pub mod WordLemmas
pub mod GuestLemmas
pub mod GroupLemmas
pub mod UnusedLemmas
pub mod ConfigLemmas
mod Instances
