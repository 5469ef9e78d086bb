pub mod File
pub mod Save
pub mod Restore
pub mod Saves
pub mod Large
pub mod Ladder
