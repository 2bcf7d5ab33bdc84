pub mod Places
pub mod Weight
pub mod Sets
pub mod Turned
pub mod Growth
pub mod Focus
pub mod Groups
