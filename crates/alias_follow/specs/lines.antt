pub mod Entering
pub mod First
pub mod Known
