pub mod Picking
pub mod AtKeys
pub mod Lines
pub mod AtLines
