mod CommentEnds
mod Quotes
mod Marks
pub mod Longest
mod Numbers
mod Directives
mod Scanning
mod EveryText
mod Slices
