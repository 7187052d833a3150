pub mod KeySites
pub mod Orders
pub mod sites
