pub mod Answering
pub mod SolvesFunction
pub mod Recording
