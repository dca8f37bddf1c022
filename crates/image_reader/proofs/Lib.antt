pub mod Frames
pub mod First
pub mod Turns
pub mod Runs
