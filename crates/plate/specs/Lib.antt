pub mod Answers
pub mod State
