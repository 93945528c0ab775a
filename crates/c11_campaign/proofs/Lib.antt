pub mod Numbers
pub mod Ordering
pub mod Tallying
pub mod Summing
pub mod OneSummary
pub mod Together
pub mod Crossing
