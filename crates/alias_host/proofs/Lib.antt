mod Replying
mod Splitting
