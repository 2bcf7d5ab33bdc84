pub mod Memory
pub mod Of
pub mod Plain
pub mod Scan
pub mod Searched
pub mod State
pub mod Rules
