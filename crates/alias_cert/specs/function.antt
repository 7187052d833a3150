pub mod Blocks
pub mod Entries
pub mod Temporaries
pub mod Claims
pub mod Flows
pub mod Named
pub mod Faults
pub mod Functions
