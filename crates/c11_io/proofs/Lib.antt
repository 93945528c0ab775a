pub mod Known
pub mod Stops
