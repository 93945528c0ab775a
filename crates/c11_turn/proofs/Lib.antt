pub mod Histories
pub mod Following
pub mod Turning
pub mod Opening
pub mod Asking
