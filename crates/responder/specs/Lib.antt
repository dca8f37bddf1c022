pub mod Carried
pub mod Written
pub mod Bits
