pub mod Expansions
pub mod GroupingLemmas
pub mod PeersLemmas
pub mod Relays
mod Broadcasts
