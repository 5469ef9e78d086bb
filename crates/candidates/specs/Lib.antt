pub mod Space
pub mod Candidate
pub mod Random
