pub mod Mixing
pub mod Leaving
pub mod Ranging
