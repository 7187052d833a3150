pub mod unsure
pub mod laws
pub mod Held
pub mod Calls
pub mod Ends
