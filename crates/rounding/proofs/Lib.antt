pub mod Entries
pub mod Nearest
pub mod Negated
pub mod Patterns
pub mod Table
pub mod Wholes
