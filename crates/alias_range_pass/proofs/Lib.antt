pub mod Keeps
mod Refused
mod Ranging
