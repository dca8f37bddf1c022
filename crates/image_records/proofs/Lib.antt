pub mod Good
pub mod Seeing
pub mod Slots
