pub mod Bits
pub mod Days
pub mod Fits
pub mod Listings
pub mod Stood
pub mod Verdicts
