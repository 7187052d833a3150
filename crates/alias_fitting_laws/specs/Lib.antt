pub mod bare
pub mod pruning
