pub mod Code
pub mod Flat
pub mod Law
pub mod Pieces
pub mod Spans
