pub mod Joined
pub mod Laws
pub mod Pairs
pub mod Tallies
