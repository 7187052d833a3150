pub mod Passes
pub mod Givens
