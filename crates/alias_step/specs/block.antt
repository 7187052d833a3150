pub mod Contexts
pub mod Faults
pub mod Recorded
pub mod Actions
pub mod Blocks
pub mod Initial
pub mod ReplayLaws
pub mod ProperLaws
