pub mod Words
pub mod Texts
pub mod Firsts
pub mod TokensRead
pub mod ReservesRead
pub mod Spelled
pub mod HeaderRead
pub mod ReadBack
mod Instances
pub mod TokenLemmas
pub mod OpenLemmas
pub mod NamesLemmas
pub mod UsedLemmas
pub mod SizeLemmas
pub mod Appending
pub mod NamedLemmas
pub mod Whole
