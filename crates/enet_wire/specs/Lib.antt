pub mod Journals
pub mod Socket
pub mod WireMemory
pub mod Wires
pub mod Private
