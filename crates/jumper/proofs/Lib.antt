pub mod Nears
pub mod Steps
