pub mod Same
pub mod Writing
pub mod Crossing
pub mod Telling
pub mod Entering
pub mod Forgetting
pub mod Playing
pub mod Keeping
