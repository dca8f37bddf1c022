pub mod Writing
pub mod Remaining
pub mod WriteError
pub mod Draft
