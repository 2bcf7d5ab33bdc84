pub mod Fans
pub mod Faults
pub mod Neighbours
pub mod Of
pub mod Rows
pub mod Verdict
