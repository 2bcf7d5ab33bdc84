pub mod Arcs
pub mod Degrees
pub mod Facts
pub mod Fan
pub mod Near
pub mod Sounds
pub mod Sums
