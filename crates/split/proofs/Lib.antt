pub mod Rotations
pub mod Stretching
pub mod Dividing
pub mod Cycling
pub mod Laws
