pub mod Walking
pub mod Fitting
pub mod Writing
pub mod Linking
pub mod Laws
