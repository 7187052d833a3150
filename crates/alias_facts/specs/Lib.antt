pub mod Numbers
pub mod Hoisted
pub mod Candidates
pub mod Spreads
pub mod Handlers
pub mod Facts
