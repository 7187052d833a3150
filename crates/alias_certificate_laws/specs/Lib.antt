pub mod text
pub mod accepting
