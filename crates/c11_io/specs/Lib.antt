pub mod Causes
pub mod Laws
pub mod Memory
pub mod Whole
pub mod Standard
