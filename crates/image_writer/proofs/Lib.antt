pub mod Records
pub mod RoundTrip
pub mod TooLong
pub mod Drafts
pub mod Rest
pub mod Promise
pub mod Faults
