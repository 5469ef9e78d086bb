pub mod Running
pub mod Slots
pub mod Best
pub mod Paper
