pub mod same
pub mod steps
pub mod flow
