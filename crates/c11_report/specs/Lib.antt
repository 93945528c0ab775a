pub mod Execution
pub mod Outputs
pub mod Refusals
pub mod Summaries
