pub mod Neighbours
pub mod Floods
pub mod Meets
