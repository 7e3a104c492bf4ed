pub mod Nets
pub mod Law
pub mod Delivered
pub mod Kept
pub mod Page
