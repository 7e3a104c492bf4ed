pub mod Round
pub mod Reading
pub mod Putting
pub mod Sharing
pub mod Stripping
pub mod Bodies
pub mod Codes
pub mod Growing
