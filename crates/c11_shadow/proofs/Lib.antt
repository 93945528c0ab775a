pub mod Scans
pub mod Places
pub mod Longer
pub mod Answered
pub mod Rooms
pub mod Noted
pub mod Whole
