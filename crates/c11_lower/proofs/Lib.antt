pub mod Lists
pub mod Walks
pub mod Stmts
pub mod Sized
pub mod Behind
pub mod Sizes
pub mod Codes
pub mod Bodies
