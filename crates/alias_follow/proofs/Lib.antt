pub mod Running
pub mod Coming
pub mod Levels
pub mod Whole
pub mod Telling
