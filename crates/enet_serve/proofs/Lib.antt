pub mod Passing
pub mod TurnByTurn
pub mod Room
pub mod Partings
