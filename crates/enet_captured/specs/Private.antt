-- What no public contract needs.
pub mod Belonging
pub mod Readings
pub mod Timelines
pub mod Commands
pub mod Gaps
pub mod Tables
pub mod Numbers
