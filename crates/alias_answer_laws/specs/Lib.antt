pub mod order
pub mod answers
