pub mod Blocks
pub mod Interfaces
pub mod Rewritten
