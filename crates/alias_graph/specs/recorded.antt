pub mod Each
pub mod IdSets
pub mod Listings
pub mod BlockListings
pub mod Recording
pub mod Fitting
