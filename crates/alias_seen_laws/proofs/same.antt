pub mod Identifiers
pub mod Writing
pub mod Calling
pub mod Signing
