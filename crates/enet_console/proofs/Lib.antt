pub mod PieceLemmas
pub mod Coming
pub mod Givings
