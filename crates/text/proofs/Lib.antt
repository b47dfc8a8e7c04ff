pub mod Laid
pub mod Lengths
pub mod Bound
pub mod Handing
pub mod Calling
pub mod Enough
pub mod Unique
