pub mod Options
pub mod PhaseSteps
pub mod Among
pub mod Reporting
pub mod Runs
pub mod Sendings
pub mod Tellings
pub mod Untold
