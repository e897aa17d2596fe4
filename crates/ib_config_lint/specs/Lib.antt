pub mod Rows
pub mod Warnings
pub mod Texts
