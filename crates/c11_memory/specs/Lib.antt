pub mod Execution
pub mod Steps
pub mod Waits
pub mod Marks
pub mod Sound
