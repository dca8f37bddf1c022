pub mod Search
pub mod Mask
