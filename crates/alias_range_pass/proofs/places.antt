pub mod Mapping
pub mod Steps
