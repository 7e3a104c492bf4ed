pub mod Steps
pub mod CountLemmas
pub mod DelayLemmas
pub mod GapLemmas
pub mod TableLemmas
pub mod LinkLemmas
pub mod FateLemmas
pub mod PassLemmas
