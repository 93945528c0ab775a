pub mod Counted
pub mod Cutting
pub mod Listing
pub mod Printed
pub mod Tallying
pub mod Turning
