pub mod Contexts
pub mod Sites
pub mod Transitive
pub mod Tasks
pub mod SiteLaws
pub mod TransitiveLaws
pub mod TaskLaws
pub mod ProperLaws
