pub mod Crossings
pub mod Jumped
pub mod Laws
pub mod Sounds
pub mod Added
pub mod Verdicts
