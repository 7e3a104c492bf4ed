pub mod Delivering
pub mod Net
pub mod Kept
pub mod Covered
pub mod Page
pub mod Telling
