pub mod Laws
pub mod SeqCst
pub mod Tables
