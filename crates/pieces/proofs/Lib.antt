pub mod Search
pub mod Cutting
