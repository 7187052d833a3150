pub mod Names
pub mod Aligning
pub mod Carrying
pub mod Looking
pub mod Ending
pub mod Placing
pub mod Printing
