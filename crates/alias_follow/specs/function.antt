pub mod Givens
pub mod Faults
pub mod Functions
