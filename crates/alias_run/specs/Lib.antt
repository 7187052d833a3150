pub mod Commands
pub mod Explanations
pub mod Findings
pub mod Inferences
pub mod Runs
pub mod Statuses
pub mod Texts
