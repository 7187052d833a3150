pub mod Lines
mod Listing
mod Printed
