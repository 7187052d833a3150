pub mod Apart
pub mod KeySites
pub mod Linear
