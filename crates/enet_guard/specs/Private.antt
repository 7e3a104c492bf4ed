pub mod Ids
pub mod Room
