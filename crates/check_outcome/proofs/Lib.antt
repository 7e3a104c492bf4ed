pub mod SomeLife
pub mod OnChannel
