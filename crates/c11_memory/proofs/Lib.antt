pub mod Lengthened
pub mod Opening
pub mod Stepping
pub mod Sticking
pub mod Waiting
pub mod Reading
