pub mod Nested
pub mod Leaving
