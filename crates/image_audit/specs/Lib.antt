pub mod Audits
pub mod Findings
pub mod PrivatePartings
pub mod PrivateRests
pub mod Texts
