pub mod Copying
pub mod Parts
pub mod Reading
pub mod Judging
pub mod Unique
