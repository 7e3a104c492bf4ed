pub mod Ends
pub mod Holding
pub mod Memory
pub mod Serving
