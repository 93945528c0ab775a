pub mod Beginnings
pub mod Growing
pub mod Listed
pub mod Racing
