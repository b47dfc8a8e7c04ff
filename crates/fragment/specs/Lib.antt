pub mod Desks
pub mod Fragments
pub mod Rounds
pub mod Bars
