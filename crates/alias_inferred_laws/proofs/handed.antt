pub mod Preceding
pub mod Handing
