mod Spelling
mod States
mod Blocks
mod Whole
mod Rising
mod Noting
mod Entries
mod Following
