pub mod places
pub mod summary
pub mod Refusals
pub mod Passes
pub mod Laws
pub mod CheckLaws
