pub mod Unsequenced
pub mod Law
pub mod Examples
