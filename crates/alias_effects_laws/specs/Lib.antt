pub mod naming
pub mod writes
pub mod entries
