mod Knowing
mod Drops
