pub mod Calls
pub mod Growth
pub mod Places
pub mod Sizes
pub mod Trees
