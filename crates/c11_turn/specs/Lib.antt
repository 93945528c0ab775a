pub mod Hand
pub mod Asking
