pub mod Numbers
pub mod Wrapped
