pub mod Past
pub mod Sound
