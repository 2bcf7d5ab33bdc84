pub mod Labels
pub mod Merge
pub mod Records
pub mod Rule
pub mod Search
pub mod Theorems
