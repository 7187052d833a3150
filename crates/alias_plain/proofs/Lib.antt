mod Moving
mod Drops
mod Stops
