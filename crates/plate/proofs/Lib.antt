pub mod Laws
pub mod Stages
pub mod Copies
pub mod Rooms
pub mod Unique
