pub mod Rows
pub mod Walks
pub mod Trunks
pub mod Groups
pub mod Choices
pub mod Kept
pub mod Plans
pub mod Laws
