pub mod Pictures
pub mod Shown
pub mod Summaries
pub mod Private
