pub mod Bytes
pub mod Calling
pub mod Laws
pub mod Unique
