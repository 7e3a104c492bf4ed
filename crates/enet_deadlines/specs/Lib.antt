pub mod Clock
pub mod Moments
pub mod Sets
pub mod Invariant
pub mod Private
