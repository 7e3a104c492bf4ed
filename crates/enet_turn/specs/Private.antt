-- What no public contract needs.
pub mod Ending
