pub mod Epochs
pub mod Kept
pub mod Words
