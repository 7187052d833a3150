pub mod Carried
pub mod Handed
pub mod Steps
