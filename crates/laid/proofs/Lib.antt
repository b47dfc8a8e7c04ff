pub mod Laying
pub mod Rooming
pub mod Leaving
pub mod Unique
