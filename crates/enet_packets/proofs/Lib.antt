pub mod LineLemmas
pub mod Maps
pub mod PacketLemmas
