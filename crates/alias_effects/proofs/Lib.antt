pub mod Entering
pub mod Moving
pub mod Recordings
pub mod RecordedDiffers
pub mod Refusals
pub mod Settling
pub mod Solving
pub mod StillFits
