pub mod Places
pub mod Pieces
pub mod Views
pub mod Held
mod Collecting
mod Frugal
pub mod Cuts
pub mod Laws
pub mod Wholes
pub mod Commands
pub mod Marked
