pub mod inferred
pub mod handed
