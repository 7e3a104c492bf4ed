pub mod ServiceRuns
pub mod Queues
pub mod Lacking
