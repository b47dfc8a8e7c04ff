pub mod Words
pub mod Rooms
