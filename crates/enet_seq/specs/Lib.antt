pub mod Numbering
pub mod Windows
