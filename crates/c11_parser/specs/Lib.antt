pub mod Sorting
pub mod Trees
