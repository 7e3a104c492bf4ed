pub mod Settled
pub mod Spells
pub mod ManyCalls
pub mod Parting
