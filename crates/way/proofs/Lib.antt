pub mod Darts
pub mod Within
pub mod Passing
pub mod Measuring
pub mod Choosing
pub mod Descending
