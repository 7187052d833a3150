pub mod Ranges
pub mod Walking
pub mod Finding
pub mod Silent
pub mod Parts
pub mod Noting
