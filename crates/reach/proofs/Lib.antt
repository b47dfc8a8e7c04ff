pub mod Chaining
pub mod Chains
pub mod Meeting
pub mod Spreading
pub mod Flooding
pub mod Around
