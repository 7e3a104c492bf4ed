-- What no public contract needs.
pub mod Noted
pub mod Refusals
