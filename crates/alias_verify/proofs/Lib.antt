mod Edges
mod Units
mod Verified
