pub mod Parts
pub mod Staying
pub mod Sending
pub mod Taking
pub mod Laws
pub mod ExampleRuns
