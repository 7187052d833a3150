pub mod lines
pub mod function
pub mod Functions
pub mod Units
