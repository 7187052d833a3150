pub mod Stating
pub mod Answering
pub mod SolvesFunction
