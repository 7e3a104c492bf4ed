pub mod Changes
pub mod Fullness
pub mod Shown
pub mod OverAll
pub mod Waiting
pub mod OneByOne
pub mod Tallies
pub mod Longest
