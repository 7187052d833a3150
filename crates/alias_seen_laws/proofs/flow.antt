pub mod Facts
pub mod Naming
pub mod Flowing
