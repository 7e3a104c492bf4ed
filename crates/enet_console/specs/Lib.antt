pub mod Words
pub mod Inputs
pub mod Outlets
pub mod Seconds
pub mod Versions
pub mod Private
