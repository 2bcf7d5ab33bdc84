pub mod Answers
pub mod Asked
pub mod Faults
pub mod Laws
pub mod Meaning
pub mod Walked
