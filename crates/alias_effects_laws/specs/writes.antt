pub mod Writes
pub mod Telling
pub mod BlockWrites
pub mod Solutions
pub mod WriteLaws
