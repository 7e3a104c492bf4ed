pub mod Span
pub mod Context
pub mod Body
pub mod Memory
pub mod Learning
pub mod Private
pub mod Code
