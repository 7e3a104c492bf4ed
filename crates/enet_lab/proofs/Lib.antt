pub mod Running
pub mod Ends
pub mod Passages
pub mod Making
