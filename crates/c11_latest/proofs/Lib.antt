pub mod Bounds
pub mod Places
mod Linking
mod Searching
