pub mod Words
pub mod Calls
pub mod ToSign
pub mod ImageAlgorithms
