pub mod Pieces
pub mod Reading
pub mod Numbers
pub mod Directives
pub mod Scan
