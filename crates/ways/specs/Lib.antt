pub mod Distance
pub mod Few
pub mod Laws
pub mod Lesser
pub mod Nearest
pub mod Options
pub mod Places
pub mod Way
