pub mod Clock
pub mod Timing
pub mod Expiry
pub mod Transmission
pub mod SendTimes
