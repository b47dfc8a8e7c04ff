pub mod Cutting
pub mod Rows
pub mod Whole
pub mod Stories
