pub mod Raising
pub mod Accepted
