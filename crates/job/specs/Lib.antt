pub mod Day
pub mod Faults
pub mod Held
pub mod Laws
pub mod Marks
pub mod Places
pub mod Said
