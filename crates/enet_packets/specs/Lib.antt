pub mod Codes
pub mod Invariant
pub mod Packets
pub mod Private
