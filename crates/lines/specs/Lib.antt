pub mod Story
pub mod Lines
