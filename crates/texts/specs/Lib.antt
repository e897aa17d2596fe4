pub mod Consecutive
pub mod NumberTexts
pub mod Rows
pub mod Stores
pub mod Lines
