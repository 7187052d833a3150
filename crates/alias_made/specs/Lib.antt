pub mod Draws
pub mod Instructions
pub mod Blocks
pub mod Units
pub mod laws
