pub mod Words
pub mod Statuses
pub mod Usage
pub mod Jobs
pub mod Answers
pub mod Programs
pub mod Laws
