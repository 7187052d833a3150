pub mod Ranging
pub mod Rooting
pub mod Lasting
pub mod Silence
pub mod Reporting
pub mod Listing
pub mod Explaining
pub mod Carrying
