pub mod Faults
pub mod Laws
pub mod Pages
pub mod Said
pub mod Text
