pub mod Rings
pub mod Following
pub mod Turns
pub mod Tables
