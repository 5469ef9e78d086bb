pub mod Select
pub mod Mutant
pub mod Cross
pub mod Trial
pub mod Paper
pub mod Strategy
pub mod BoundsRule
