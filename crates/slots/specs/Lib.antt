pub mod Look
pub mod Held
