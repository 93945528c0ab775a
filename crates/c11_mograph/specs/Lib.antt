pub mod Heads
pub mod Spread
pub mod Made
pub mod Words
pub mod Graph
pub mod Lists
pub mod Parts
pub mod Clocks
