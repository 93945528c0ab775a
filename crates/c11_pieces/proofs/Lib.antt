pub mod Fitting
pub mod Counted
pub mod Joins
pub mod Parts
pub mod Typed
