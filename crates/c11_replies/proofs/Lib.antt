mod Places
mod Extending
mod Adding
mod Joining
