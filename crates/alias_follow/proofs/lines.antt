pub mod First
pub mod Raising
