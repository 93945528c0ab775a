pub mod Views
pub mod Turns
pub mod Steps
pub mod Seats
pub mod Places
pub mod Sessions
