-- What no public contract needs.
pub mod Records
