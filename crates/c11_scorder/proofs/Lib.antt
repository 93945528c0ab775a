mod Answering
mod Basic
mod Deciding
mod Keeping
