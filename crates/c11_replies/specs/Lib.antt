pub mod Words
pub mod Changed
