pub mod Throttle
pub mod Bandwidth
