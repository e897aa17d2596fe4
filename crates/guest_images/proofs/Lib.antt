pub mod GuestByGuest
pub mod LeastFiles
pub mod WalksApart
