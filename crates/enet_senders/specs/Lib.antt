pub mod Senders
pub mod Controlling
pub mod Counting
pub mod Invariant
pub mod Made
pub mod Outstanding
pub mod Sets
pub mod Private
