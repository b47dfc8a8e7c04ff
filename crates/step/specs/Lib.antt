pub mod Stories
pub mod Rooms
