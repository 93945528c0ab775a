pub mod Linked
pub mod Notes
