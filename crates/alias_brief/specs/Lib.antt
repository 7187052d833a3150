pub mod Briefs
pub mod Differences
pub mod Fitting
pub mod Saying
pub mod Verifying
