pub mod Halves
pub mod Kept
