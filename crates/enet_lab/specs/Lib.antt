pub mod Lines
pub mod Refused
pub mod Scripts
pub mod Answers
pub mod Hosts
pub mod EnetLines
pub mod Private
