pub mod Flat
pub mod Known
pub mod Trial
pub mod Answers
pub mod Build
pub mod Look
pub mod Held
pub mod Internal
