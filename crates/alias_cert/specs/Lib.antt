pub mod effects
pub mod function
pub mod Functions
pub mod Known
pub mod Units
