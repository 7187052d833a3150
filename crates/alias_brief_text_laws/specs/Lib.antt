pub mod Telling
pub mod Orderly
pub mod Reading
