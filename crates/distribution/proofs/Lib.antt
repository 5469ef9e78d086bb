pub mod Examples
pub mod Flags
pub mod FloatRows
pub mod IntRows
pub mod Meaning
pub mod Order
