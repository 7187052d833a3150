pub mod Operands
pub mod Defaults
pub mod Expansions
pub mod Calls
pub mod Instructions
pub mod block
