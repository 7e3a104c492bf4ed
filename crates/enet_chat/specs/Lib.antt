pub mod Chat
pub mod Lists
pub mod Lone
pub mod Peers
pub mod Relaying
pub mod Slow
pub mod Private
