pub mod Merged
pub mod Relay
pub mod Pairs
pub mod Refusals
pub mod Unreliable
pub mod Chat
