pub mod Connected
pub mod Growth
pub mod Groups
pub mod Laws
