pub mod Meanings
pub mod Walks
