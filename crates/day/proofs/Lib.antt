pub mod Days
pub mod Joins
